pub mod MadeJob
