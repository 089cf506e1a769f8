pub mod EraseLaws
