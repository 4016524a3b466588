pub mod Selected
pub mod Windows
pub mod UsedParts
pub mod Lanes
pub mod MaskPlaces
