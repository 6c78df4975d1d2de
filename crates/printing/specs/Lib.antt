pub mod PrintoutIn
