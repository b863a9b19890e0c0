pub mod Divisors
