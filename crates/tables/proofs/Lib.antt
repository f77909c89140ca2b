pub mod Zigzag
