mod Absent
mod Growing
mod Listing
mod Lists
mod Parts
mod Reading
mod Spelled
mod Within
