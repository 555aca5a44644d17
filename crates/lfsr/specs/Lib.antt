-- The shift register, the two key families that it makes, and digests on their way.
pub mod Register
pub mod Keys
pub mod ColumnLaws
pub mod Digests
-- Lemmas, of which nothing has to be believed: that every admitted key keeps the law, which its impl of `Family` names.
pub mod EvenOnes
pub mod ColumnsOfStates
pub mod Stepping
pub mod KeyLaws
