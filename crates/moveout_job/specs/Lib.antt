pub mod OnDisk
