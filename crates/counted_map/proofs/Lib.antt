pub mod CountMapLemmas
