pub mod ManyRoutines
