pub mod GrownNames
pub mod HeldPairs
pub mod KeptBlocks
pub mod KeptVersions
pub mod OwnedHeld
pub mod OwnedLaws
pub mod OwnedMoves
pub mod SinceNumbers
