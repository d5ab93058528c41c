pub mod Steps
pub mod Never
pub mod Composes
pub mod Goes
pub mod Reaches
