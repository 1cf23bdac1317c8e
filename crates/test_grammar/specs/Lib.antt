pub mod ActSpellings
pub mod ArraySpellings
pub mod ExpressionSpellings
pub mod LoopSpellings
pub mod RangeSpellings
pub mod ScriptSpellings
pub mod ValueSpellings
pub mod worked
