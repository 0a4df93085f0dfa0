-- What is written on a page.
pub mod Pages
