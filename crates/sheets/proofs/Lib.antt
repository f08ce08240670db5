-- Laws of the products of columns and of the tests of a sheet.
pub mod Products
pub mod Ranges
pub mod SheetTable
pub mod SheetSteps
