-- What the links say: where a link leads, a page put in, its place, and one turn of a walk.
pub mod Links
pub mod Insertion
pub mod Place
pub mod Turns
