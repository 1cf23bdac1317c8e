pub mod CaseNames
pub mod GivenWords
pub mod JoinedLines
pub mod NumberWords
pub mod TestedCases
pub mod WorkedCases
