pub mod Hosts
