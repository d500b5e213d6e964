pub mod PlainStream
pub mod EncodedFile
pub mod inside
