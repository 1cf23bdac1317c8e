pub mod AcceptedDirective
mod AfterClose
pub mod AnswersKept
pub mod AllVisits
mod AwaitedNumbers
mod BatchNotes
pub mod CloseOut
mod DeviceNotes
pub mod DirectivesCounted
mod EnteredRanges
mod EntriesAndEnds
mod EntryWalks
mod ExitWalks
mod FaultIn
pub mod FirstFault
pub mod GroupLives
mod GroupedOperations
mod HeldAndMade
mod HeldInWalk
pub mod InArrays
mod KeptCloses
pub mod LabelsSound
pub mod LabelsThere
pub mod LastClose
pub mod LeftOpen
pub mod LoopCells
mod LoopItems
mod LoopReach
mod NoteFound
mod NoteOf
mod NotedBy
mod NotesOn
mod OpenRegion
mod PlaceAccept
mod PlaceParts
mod PlanOf
mod QueuesAfter
mod ReachJudged
mod RegionsOn
mod RoomMade
mod SliceSet
mod StandingIn
mod TrialPlan
mod TriedDirective
pub mod VisitLives
mod Visits
mod WalkItem
pub mod WalkLives
