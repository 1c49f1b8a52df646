pub mod Builder
