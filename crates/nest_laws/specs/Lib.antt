pub mod NestLaws
