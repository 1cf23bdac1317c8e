mod ArrayNames
mod Deeper
mod Kept
mod Numbered
