pub mod InSearch
