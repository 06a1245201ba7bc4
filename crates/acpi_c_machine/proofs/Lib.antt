pub mod WrittenTables
