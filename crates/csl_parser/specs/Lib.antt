pub mod Chains
pub mod Program
