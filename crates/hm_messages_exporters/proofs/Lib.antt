mod Exporting
mod WorkedExporters
