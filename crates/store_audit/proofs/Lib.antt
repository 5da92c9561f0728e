mod Places
mod Compared
mod Firsts
mod Readable
mod Behind
