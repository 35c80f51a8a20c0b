mod Draws
mod Joined
mod Dealing
mod Ended
mod Rules
mod AccountFormed
mod BankFormed
mod AllFormed
