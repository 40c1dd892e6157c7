pub mod HeldParts
pub mod PartTurns
