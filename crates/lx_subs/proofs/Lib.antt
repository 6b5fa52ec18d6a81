pub mod RaisedLevels
