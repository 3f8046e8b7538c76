pub mod ListWatched
