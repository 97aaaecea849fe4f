pub mod Outs
pub mod Firsts
pub mod Wishes
