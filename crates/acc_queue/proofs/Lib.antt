mod ForQueue
mod ProgressSteps
