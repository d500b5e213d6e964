pub mod LevelBytes
