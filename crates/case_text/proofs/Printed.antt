-- A printed case is read back: its rows, the case of them, and its text. Declares nothing.
pub mod Rows
pub mod Case
pub mod Text
