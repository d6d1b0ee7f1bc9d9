mod Lists
mod Padding
mod Steps
mod Stated
