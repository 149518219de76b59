pub mod PowerUps
