-- What a journal is: the bytes of its file, and what a crash may leave of a file.
pub mod Format
pub mod Disk
