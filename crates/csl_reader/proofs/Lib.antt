pub mod OneWay
pub mod Refusing
