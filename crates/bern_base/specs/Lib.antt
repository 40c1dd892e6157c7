pub mod Affine
pub mod Expressions
pub mod formers
pub mod Matrix
pub mod RawDepth
pub mod Ring
pub mod Rules
pub mod Shapes
