pub mod ByteWords
