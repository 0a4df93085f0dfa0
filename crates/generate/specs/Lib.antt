-- What a word behind the program's name says.
pub mod Numbers
