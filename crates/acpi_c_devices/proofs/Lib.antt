pub mod IommuLists
