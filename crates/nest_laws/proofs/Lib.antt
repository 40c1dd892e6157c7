pub mod ApartLemmas
pub mod BodyLemmas
pub mod NestLemmas
pub mod WriteLemmas
