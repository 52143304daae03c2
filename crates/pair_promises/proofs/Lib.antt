-- The promises of specs/, a file each; those of `Pair` are kept in `Pairs`.
pub mod Signs
pub mod Pairs
pub mod OnePlace
pub mod Reader
