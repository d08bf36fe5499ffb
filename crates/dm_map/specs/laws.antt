-- Laws whose proofs are among the specs, because files that may import only specs need them.
pub mod Contents
pub mod PieceLists
