pub mod LineEvents
pub mod LinesAndWords
pub mod RepeatedTurns
