mod CasesTested
mod StatusExplorations
mod StatusReplay
mod StatusSteps
mod WordsMean
mod WordsRead
mod WordsRefused
