mod Booking
mod Trading
