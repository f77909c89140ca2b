pub mod WriteAnswer
pub mod RecordLengths
pub mod RecordOffsets
pub mod Answer
