mod Crossing
mod Ends
mod Keeping
mod Staffing
