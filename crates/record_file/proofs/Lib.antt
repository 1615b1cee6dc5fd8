pub mod OntoLaws
pub mod ToldLines
