pub mod FlatValues
pub mod MembersBack
pub mod ReadNumbers
pub mod Readings
pub mod SameNotes
