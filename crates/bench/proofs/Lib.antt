pub mod Finished
pub mod Answering
pub mod WholeBlocks
