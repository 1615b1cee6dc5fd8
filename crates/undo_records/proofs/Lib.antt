pub mod NearLaws
pub mod SoundRecords
pub mod UndoneRows
pub mod Untold
pub mod Walking
