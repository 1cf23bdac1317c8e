mod BareStatements
mod WorkedHosts
mod GoOn
mod HostStands
pub mod NotesNothing
mod OwnRead
