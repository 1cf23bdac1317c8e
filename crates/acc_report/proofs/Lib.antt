mod BarePrograms
mod CountedQueues
pub mod JoinedPuts
mod LinesFound
mod OneDigit
mod PlacedTotals
mod PrintedLines
mod PutPages
mod RetoldHistory
mod WholeReport
