-- The door over records rests on the door over columns.
mod Copied
