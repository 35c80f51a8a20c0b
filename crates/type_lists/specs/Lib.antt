pub mod Stacks
pub mod Cells
pub mod Trees
pub mod Named
pub mod Parted
